-- Laws of wants: no two mean the same.
pub mod WantsApart
