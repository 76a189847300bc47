pub mod LeavingLemmas
pub mod LivingLemmas
