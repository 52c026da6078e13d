-- The refusal bodies of acts, moves and settings.
use Rattle.std.specs.Prelude.{ℕ, codes}
use Rattle.wb_model.specs.declared.act.CaseFault.{CaseFault}
use Rattle.wb_model.specs.declared.act.CaseFault.TheVariants as cases
use Rattle.wb_model.specs.declared.act.CustodyFault.{CustodyFault}
use Rattle.wb_model.specs.declared.act.CustodyFault.TheVariants as custody
use Rattle.wb_model.specs.declared.act.Was.{Was}
use Rattle.wb_model.specs.declared.act.Was.TheVariants as was
use Rattle.wb_model.specs.declared.setting.AdminFault.{AdminFault}
use Rattle.wb_model.specs.declared.setting.AdminFault.TheVariants as admin
use Rattle.wb_model.specs.declared.body.Told.{Told}
use Rattle.wb_model.specs.Names.{role_name, status_name, state_name}
use Rattle.wb_model.specs.Refusals.{refused, Detail, Field, Null, Whole, Date, Word, not_found, no_memory}

-- what was there already: a day, a user's id, or a status
abbrev pub was_detail : Was → Detail
was_detail (was.Day day) = Date day
was_detail (was.User user) = Whole user
was_detail (was.Status status) = Word (status_name status)

unfoldable pub trail_full : Told
trail_full = refused 409 (codes "trail_full") (Whole 4_096)

unfoldable pub case_told : CaseFault → Told
case_told (cases.Already x) = refused 409 (codes "already") (was_detail x)
case_told cases.Closed = refused 409 (codes "closed") Null
case_told cases.SameContext = refused 409 (codes "same_context") Null
case_told cases.ContextClosed = refused 409 (codes "context_closed") Null
case_told cases.NotReader = refused 409 (codes "not_reader") Null
case_told cases.LastReader = refused 409 (codes "last_reader") Null
case_told cases.PostponeSpent = refused 409 (codes "postpone_spent") (Whole 10)
case_told cases.NotExternal = refused 409 (codes "not_external") Null
case_told cases.TrailFull = trail_full
case_told cases.Memory = no_memory

unfoldable pub custody_told : CustodyFault → Told
custody_told custody.NoIdentity = refused 409 (codes "no_identity") Null
custody_told (custody.Pending request) = refused 409 (codes "pending") (Whole request)
custody_told (custody.Decided state) = refused 409 (codes "decided") (Word (state_name state))
custody_told (custody.NotGranted state) = refused 409 (codes "not_granted") (Word (state_name state))
custody_told custody.NoSuchRequest = not_found
custody_told custody.DeskFull = refused 409 (codes "desk_full") (Whole 100)
custody_told custody.TrailFull = trail_full
custody_told custody.Memory = no_memory

-- with how many there may be: 99 versions of a form, or 10,000 disablings of a user
unfoldable pub admin_told : ℕ → AdminFault → Told
admin_told most admin.NotFound = not_found
admin_told most admin.NoPassword = refused 422 (codes "missing") (Field (codes "password"))
admin_told most (admin.NameTaken user) = refused 409 (codes "name_taken") (Whole user)
admin_told most (admin.RoleFixed role) = refused 409 (codes "role_fixed") (Word (role_name role))
admin_told most admin.Full = refused 409 (codes "full") (Whole most)
admin_told most admin.Memory = no_memory
