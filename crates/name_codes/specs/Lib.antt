pub mod ClassMeaning
