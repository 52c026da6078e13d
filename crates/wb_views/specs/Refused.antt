-- What the code's refusals stand for.
use Rattle.wb_model.specs.declared.body.Told.{Told}
use Rattle.wb_model.specs.Faults.{case_told, custody_told, admin_told}
use Rattle.wb_model.specs.Refusals.{not_found, no_session, wrong_role, wrong_right, bad_login, numbers_spent, quota_spent, receipt_taken}
use Rattle.wb_views.specs.declared.refused.Refusal.{Refusal}
use Rattle.wb_views.specs.declared.refused.Refusal.TheVariants as refusals

abbrev pub told_of : Refusal → Told
told_of refusals.NotFound = not_found
told_of refusals.NoSession = no_session
told_of refusals.WrongRole = wrong_role
told_of refusals.WrongRight = wrong_right
told_of refusals.BadLogin = bad_login
told_of refusals.NumbersSpent = numbers_spent
told_of (refusals.QuotaSpent quota) = quota_spent quota
told_of refusals.ReceiptTaken = receipt_taken
told_of (refusals.OfAct fault) = case_told fault
told_of (refusals.OfMove fault) = custody_told fault
told_of (refusals.OfSetting most fault) = admin_told most fault
