-- What a kept row of a format stands for, and the row of that.
use Rattle.std.specs.Prelude.{ℕ, ◌==◌, ◌&&◌, nat_le, Bool, true, if◌then◌else◌, Option, None, option_map, option_and_then}
use Rattle.serde_json.specs.Data.{Data}
use Rattle.serde_json.specs.Read.{read}
use Rattle.wb_base.specs.FormJson.{form_in}
use Rattle.wb_base.specs.AnswerList.{is_text}
use Rattle.wb_base.specs.FormShape.{keep}
use Rattle.wb_base.specs.declared.form.Format.{Format}
use Rattle.wb_base.specs.declared.rows.Key.{Key}
use Rattle.wb_base.specs.declared.rows.Row.{Row}
use Rattle.wb_model.specs.Bodies.{answers}
use Rattle.wb_model.specs.Fits.{is_between}
use Rattle.wb_model.specs.Json.{answers_data}
use Rattle.wb_model.specs.Rows.{row, settings_data, numbering_data, user_data, context_data, entry_data}
use Rattle.wb_model.specs.SetUps.{is_tenant_item, is_user_item, is_form_item, is_context_item}
use Rattle.wb_row_codec.specs.declared.item.Item.{Item}
use Rattle.wb_row_codec.specs.declared.item.Item.TheVariants.{Settings, Numbering, User, Form, Context, Entry, Sealed}
use Rattle.wb_row_codec.specs.SaidDeeds.{entry}
use Rattle.wb_row_codec.specs.Shapes as shapes

-- the row of an item
abbrev pub item_row : Format → Item → Row
item_row format (Settings x) = row 1 x.tenant 0 0 (settings_data x)
item_row format (Numbering x) = row 2 x.tenant 0 0 (numbering_data x.numbering)
item_row format (User x) = row 3 x.tenant x.id 0 (user_data x)
item_row format (Form x) = row 4 x.tenant x.id x.version (form_in format x.form)
item_row format (Context x) = row 5 x.tenant x.id 0 (context_data x)
item_row format (Entry x) = row 6 x.tenant x.number x.place (entry_data x.entry)
item_row format (Sealed x) = row 7 x.tenant x.number 0 (answers_data x.answers)

-- what is read where a key's id is in range
abbrev pub where_in : Bool → Option Item → Option Item
where_in is_in x = if is_in then x else None

-- the item of a kind that a value is, with the ids of its key
abbrev pub of_kind : Format → ℕ → ℕ → ℕ → ℕ → Data → Option Item
of_kind format kind t a b d =
    if kind == 1 then option_map Settings (shapes.settings t d)
    else if kind == 2 then option_map (λ n. Numbering (record { tenant = t; numbering = n })) (shapes.numbering d)
    else if kind == 3 then where_in (is_between 1 256 a) (option_map User (shapes.user t a d))
    else if kind == 4 then where_in (is_between 1 16 a && is_between 1 99 b) (option_map Form (shapes.form format t a b d))
    else if kind == 5 then where_in (is_between 1 64 a) (option_map Context (shapes.context t a d))
    else if kind == 6 then where_in (nat_le 1 a && nat_le 1 b) (option_map (λ e. Entry (record { tenant = t; number = a; place = b; entry = e })) (entry d))
    else if kind == 7 then where_in (nat_le 1 a) (option_map (λ given. Sealed (record { tenant = t; number = a; answers = given })) (answers d))
    else None

abbrev pub shaped : Format → Key → Data → Option Item
shaped format k d = where_in (is_between 1 64 k.tenant) (of_kind format k.kind k.tenant k.a k.b d)

abbrev pub is_key : Key → Key → Bool
is_key k m = (k.kind == m.kind) && (k.tenant == m.tenant) && (k.a == m.a) && (k.b == m.b)

-- two rows are the same
abbrev pub is_row : Row → Row → Bool
is_row x y = is_key x.key y.key && is_text x.text y.text

-- what a row stands for: the item in its ranges whose row it is
unfoldable pub item_of : Format → Row → Option Item
item_of format x = option_and_then (keep (λ item. is_row (item_row format item) x)) (option_and_then (shaped format x.key) (read x.text))

-- what a tenant is set up with is in its ranges, and so is a report's number
abbrev pub is_in_range : Item → Bool
is_in_range (Settings x) = is_tenant_item x
is_in_range (User x) = is_user_item x
is_in_range (Form x) = is_form_item x
is_in_range (Context x) = is_context_item x
is_in_range (Numbering x) = true
is_in_range (Entry x) = nat_le 1 x.number
is_in_range (Sealed x) = true

-- rows of the format have the item: those of format 1 no scored form
abbrev pub is_kept_in : Format → Item → Bool
is_kept_in format (Settings x) = true
is_kept_in format (User x) = true
is_kept_in format (Form x) = shapes.is_in_format format x.form
is_kept_in format (Context x) = true
is_kept_in format (Numbering x) = true
is_kept_in format (Entry x) = true
is_kept_in format (Sealed x) = true
