use Rattle.std.proofs.Common.{◌≡◌, refl, sym, ap, ◌∙◌, subst}
use Rattle.wb_model.specs.declared.registry.Lists.{Lists}
use Rattle.wb_model.specs.Openings.{registry_of}
use Rattle.wb_setup.specs.Keys.{AreInOrder}
use Rattle.wb_tenants.specs.Owned.{own_lists}
use Rattle.wb_tenants.specs.Sets.{HasTenant}
use Rattle.wb_tenants.proofs.OwnParts.{own_order, own_registry, own_there}
use Rattle.wb_tenants.proofs.registry.Registry.part.Goals as goal

part_is : (c : goal.In_ok-contexts) → record { tenants = c.in_ok-tenants.tenants; users = c.in_ok-users.users; forms = c.in_ok-forms.forms; contexts = c.in_ok-contexts.contexts } ≡ own_lists c.args.tenant c.args.self.now.lists
part_is c = rw (c.in_ok-tenants.ensures, c.in_ok-users.ensures, c.in_ok-forms.ensures, c.in_ok-contexts.ensures, c.as_slice.ensures, c.as_slice-2.ensures, c.as_slice-3.ensures, c.as_slice-4.ensures, c.lists-lists.ensures.all) refl

made : (c : goal.After-over) → c.over.result.lists ≡ own_lists c.args.tenant c.args.self.now.lists
made c = c.over.ensures ∙ part_is c.before

pub over-requires : goal.over-requires
over-requires c = subst AreInOrder (sym (part_is c)) (own_order c.args.tenant c.args.self.now.lists c.lists-lists.ensures.order)

pub returns-clause-same : goal.returns-clause-same
returns-clause-same c = ap (λ (l : Lists). registry_of l c.args.tenant) (made c) ∙ own_registry c.args.tenant c.args.self.now.lists

pub returns-clause-there : goal.returns-clause-there
returns-clause-there c there = subst (λ (l : Lists). HasTenant l c.args.tenant) (sym (made c)) (own_there c.args.tenant c.args.self.now.lists there)

pub returns-clause-own : goal.returns-clause-own
returns-clause-own c = made c
