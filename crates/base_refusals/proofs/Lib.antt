-- Reasons and refusals had back from their meanings.
pub mod RefusalsBack
