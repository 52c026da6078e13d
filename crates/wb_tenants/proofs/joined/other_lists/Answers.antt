use Rattle.std.proofs.Common.{refl}
use Rattle.wb_tenants.proofs.joined.other_lists.Goals as goal

pub returns : goal.returns
returns c = rw (c.in_ok-tenants.ensures, c.in_ok-users.ensures, c.in_ok-forms.ensures, c.in_ok-contexts.ensures, c.as_slice.ensures, c.as_slice-2.ensures, c.as_slice-3.ensures, c.as_slice-4.ensures, c.as_slice-5.ensures, c.as_slice-6.ensures, c.as_slice-7.ensures, c.as_slice-8.ensures) refl
