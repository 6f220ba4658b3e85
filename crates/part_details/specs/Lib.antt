-- What a detail's answer says, and its text.
pub mod DetailMeaning
pub mod TextPlace
