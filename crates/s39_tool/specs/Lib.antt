-- The definitions that the clauses of these calls cite.
pub use Rattle.s39_backup.specs.Asking
pub use Rattle.s39_backup.specs.Correspondence
pub use Rattle.s39_backup.specs.Created
pub use Rattle.s39_backup.specs.Memo
pub use Rattle.s39_backup.specs.Outcome
pub use Rattle.s39_backup.specs.Plan
pub use Rattle.s39_backup.specs.PlanText
pub use Rattle.s39_backup.specs.Reissue
pub use Rattle.s39_backup.specs.Resplit
pub use Rattle.s39_backup.specs.TwoShort
pub use Rattle.s39_creating.specs.Reissue as ReissueOutput
pub use Rattle.s39_creating.specs.Resplit as ResplitOutput
pub use Rattle.s39_drilling.specs.Drill
pub use Rattle.s39_drilling.specs.Watching
pub use Rattle.s39_input.specs.Create
pub use Rattle.s39_input.specs.Device
pub use Rattle.s39_input.specs.Fault
pub use Rattle.s39_input.specs.Input
pub use Rattle.s39_input.specs.Repair
pub use Rattle.s39_input.specs.Runs
pub use Rattle.s39_input.specs.SecretForm
pub use Rattle.s39_input.specs.Show
pub use Rattle.s39_reading.specs.Recover
pub use Rattle.s39_reading.specs.Status
pub use Rattle.s39_set.specs.Looks
pub use Rattle.s39_set.specs.Quorums
pub use Rattle.s39_split.specs.Fitting
