-- Kept rows, expiry and counts, computed.
use Rattle.std.proofs.Common.{◌≡◌, true, false, [], ◌∷◌, refl, pos}
use Rattle.std.specs.Prelude.{map, codes, Some, option_map}
use Rattle.std.specs.Fmt.{digits}
use Rattle.json.specs.Print.{escape_byte}
use Rattle.serde_json.specs.Written.{compact_text}
use Rattle.wb_base.specs.FormJson.{weighed_show}
use Rattle.wb_base.specs.declared.form.Trigger.TheVariants as triggers
use Rattle.wb_base.specs.declared.rows.Row.{Row}
use Rattle.wb_model.specs.declared.entry.Actor.TheVariants as actors
use Rattle.wb_model.specs.declared.entry.Deed.TheVariants as deeds
use Rattle.wb_model.specs.Tables.{Case, is_live}
use Rattle.wb_model.proofs.Starter.{starter_registry, starter_opening}
use Rattle.wb_model.specs.Past.{Opening}
use Rattle.wb_model.specs.Rows.{rows}

-- the format, settings, numbering, four users, a form's version and two contexts
starter-rows : map (λ (x : Row). x.key.kind) (rows (Opening starter_opening)) ≡ 0 ∷ 1 ∷ 2 ∷ 3 ∷ 3 ∷ 3 ∷ 3 ∷ 4 ∷ 5 ∷ 5 ∷ []
unfolding starter_opening starter_registry
starter-rows = refl

-- how the starter form's third field is kept
kept-show : option_map compact_text (weighed_show (triggers.All (record { field = codes "cat"; option = codes "fraud" } ∷ []))) ≡ Some (codes "{\"least\":1,\"mode\":\"all\",\"parts\":[{\"field\":\"cat\",\"option\":\"fraud\",\"points\":1}]}")
unfolding escape_byte digits
kept-show = refl

-- a report of day 20089 that is kept for 30 days, where the day begins two hours earlier
abbrev kept : Case
kept = record { number = 1; trail = record { at = 1_735_689_600; by = actors.Reporter; deed = deeds.Submitted (pos 20_096) [] 1 (pos 20_119) (pos 20_186) 1 true (1 ∷ []) (record { 0 = [] }) (pos 20_089) 1 } ∷ [] }

last-second : is_live (record starter_registry.settings { offset = pos 120 }) 1_738_274_399 kept ≡ true
unfolding starter_registry
last-second = refl

gone-then : is_live (record starter_registry.settings { offset = pos 120 }) 1_738_274_400 kept ≡ false
unfolding starter_registry
gone-then = refl
