-- The claims of specs/Claims.antt, in their order.
-- Assumes nothing.
pub use Rattle.connections.proofs.RunLaws.{key_in_each_state, idle-is-empty, only_checked_data, expiry_closes_nothing_later}
pub use Rattle.connections.proofs.SideLaws.{completes, data_arrives}
