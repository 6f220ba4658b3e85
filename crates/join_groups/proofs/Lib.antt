-- Laws that belong to no one function: what is taken of any bytes, then of an accepted file. Read in this order.
pub mod GroupRecords
pub mod GroupCuts
pub mod GroupExtents
pub mod GroupTurns
pub mod GroupTallies
pub mod GroupsAhead
pub mod ReceiverLaws
pub mod GroupShapes
pub mod StatedLaws
pub mod StatedTallies
pub mod TakenLaws
pub mod GroupOpens
