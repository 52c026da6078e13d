-- What tenants are set up with, as the lists of all tenants.
use Rattle.std.specs.Prelude.{List, [], ◌∷◌, ◌++◌, map}
use Rattle.wb_model.specs.declared.registry.Lists.{Lists}
use Rattle.wb_model.specs.Tenants.{Tenancy}

abbrev pub of_each : {Y : Type 0} → (Tenancy → List Y) → List Tenancy → List Y
of_each f [] = []
of_each f (x ∷ xs) = f x ++ of_each f xs

abbrev pub lists_of : List Tenancy → Lists
lists_of xs = record {
  tenants = map (λ (x : Tenancy). x.tables.plain.registry.settings) xs;
  users = of_each (λ (x : Tenancy). x.tables.plain.registry.users) xs;
  forms = of_each (λ (x : Tenancy). x.tables.plain.registry.forms) xs;
  contexts = of_each (λ (x : Tenancy). x.tables.plain.registry.contexts) xs;
}
