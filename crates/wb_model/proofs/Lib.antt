pub mod Converted
pub mod DeletedRows
pub mod Effects
pub mod Eights
pub mod EightsOf
pub mod Fitting
pub mod FormatRow
pub mod Found
pub mod HeldTables
pub mod ItemPuts
pub mod Keeping
pub mod KeptPasts
pub mod KindRows
pub mod Leaving
pub mod LeftKept
pub mod LeftSetUps
pub mod LeftTimes
pub mod LegalDoings
pub mod LegalPasts
pub mod LiveActs
pub mod OpeningsOf
pub mod PartLaw
pub mod PastLaw
pub mod Placed
pub mod PutLaw
pub mod ReadAnswers
pub mod ReadablePasts
pub mod Receipts
pub mod RowLaw
pub mod SessionsApart
pub mod SessionsLaw
pub mod SetUpsReadable
pub mod SettingsRight
pub mod TurnLaw
pub mod TurnRows
pub mod Unwinding
mod AbsentOpenings
mod AbsentPast
mod AbsentScripts
mod AbsentTurns
mod ActRows
mod Agreeing
mod AlikeOpenings
mod AllTenants
mod Answered
mod CallerRoles
mod Callers
mod ChangesKept
mod CustodyRows
mod DeedsKept
mod DeletionRows
mod Dialogue
mod Drawn
mod Draws
mod DueRows
mod EmptyOpenings
mod ExtensionRows
mod FullTrailRows
mod GapSteps
mod Gapless
mod InOrder
mod KeptContexts
mod KeptForms
mod KeptRowsRows
mod KeptRuleRows
mod LegalTurns
mod LossesTold
mod Marked
mod Numberings
mod OneHost
mod OneOpening
mod OpeningReceipts
mod PublicParts
mod Purged
mod RecentSessions
mod RefusalsServed
mod Reopenings
mod RouteRows
mod RowPasts
mod RowsAlike
mod RowsLeft
mod ScriptLaw
mod SecretRows
mod SessionRows
mod SessionsBut
mod SetUpRows
mod SettingRows
mod SettingsKeep
mod SoundRegistries
mod Starter
mod StarterForm
mod SubmissionRows
mod TargetRows
mod TargetsServed
mod TargetsWithout
mod TurnsServed
mod Unchanged
mod WithoutOpenings
