pub mod AfterAnswer
pub mod PartPlan
pub mod PartPlanAgrees
pub mod PartPlanOnce
pub mod Standing
pub mod WaitingHalves
