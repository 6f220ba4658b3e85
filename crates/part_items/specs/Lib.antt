-- What an item's answer says.
pub mod ItemMeaning
