-- Which items are good: each value is in its range. Their rows are those that are read.
use Rattle.std.specs.Prelude.{ℕ, ◌&&◌, nat_le, Bool, true, List, [], ◌∷◌, ℤ, pos, neg_ℤ}
use Rattle.std.specs.List.{list_all}
use Rattle.std.specs.Option.{option_map_or}
use Rattle.wb_model.specs.declared.entry.Actor.{Actor}
use Rattle.wb_model.specs.declared.entry.Actor.TheVariants as actors
use Rattle.wb_model.specs.declared.entry.Deed.{Deed}
use Rattle.wb_model.specs.declared.entry.Entry.{Entry as EntryData}
use Rattle.wb_model.specs.declared.numbering.Numbering.{Numbering as NumberingData}
use Rattle.wb_model.specs.AnswerRanges.{are_answers}
use Rattle.wb_model.specs.DeedFields.{Field, Value, Keyed, Values, said, Whole, Text, TextOrNull, Date, Flag, Hash, Users, Answers, StatusName}
use Rattle.wb_model.specs.Fits.{is_between, has_bytes, is_settable}
use Rattle.wb_model.specs.Readable.{are_bytes, is_count, is_stored_tenant}
use Rattle.wb_model.specs.SetUps.{is_tenant_item, is_user_item, is_form_item, is_context_item}
use Rattle.wb_row_codec.specs.declared.item.Item.{Item}
use Rattle.wb_row_codec.specs.declared.item.Item.TheVariants.{Settings, Numbering, User, Form, Context, Entry, Sealed}
use Rattle.wb_row_codec.specs.Shapes.{is_within}

-- ---- values

abbrev pub is_tenant : ℕ → Bool
is_tenant t = is_between 1 64 t

abbrev pub are_users : List ℕ → Bool
are_users users = list_all (is_between 1 256) users

abbrev pub is_moment : ℕ → Bool
is_moment at = nat_le at 99_999_999_999

-- a day from the one before 1970 to the last of 5199
abbrev pub is_dated : ℤ → Bool
is_dated day = is_within (neg_ℤ (pos 1)) (pos 1_179_732) day

-- ---- entries

abbrev pub is_actor : Actor → Bool
is_actor actors.Reporter = true
is_actor (actors.User u) = is_between 1 256 u

-- a value is in the range of its field
abbrev pub is_in : (f : Field) → Value f → Bool
is_in (Whole least most) n = is_between least most n
is_in (Text least most) text = has_bytes least most text
is_in (TextOrNull least most) text = option_map_or (has_bytes least most) text true
is_in Date day = is_dated day
is_in Flag flag = true
is_in Hash digest = are_bytes 32 digest.0
is_in Users users = are_users users
is_in Answers answers = are_answers answers
is_in StatusName status = is_settable status

abbrev pub are_in : (fs : List Keyed) → Values fs → Bool
are_in [] vs = true
are_in (f ∷ fs) vs = is_in f.1 vs.0 && are_in fs vs.1

abbrev pub is_deed : Deed → Bool
is_deed d = are_in (said d).shape.fields (said d).values

abbrev pub is_entry : EntryData → Bool
is_entry e = is_moment e.at && is_actor e.by && is_deed e.deed

-- ---- items

abbrev pub is_numbering : NumberingData → Bool
is_numbering n = is_moment n.at && is_count n.drawn && is_count n.last

abbrev pub is_good : Item → Bool
is_good (Settings x) = is_tenant_item x && is_stored_tenant x
is_good (Numbering x) = is_tenant x.tenant && is_numbering x.numbering
is_good (User x) = is_tenant x.tenant && is_user_item x && are_bytes 32 x.secret.0
is_good (Form x) = is_tenant x.tenant && is_form_item x
is_good (Context x) = is_tenant x.tenant && is_context_item x && is_between 1 16 x.form && are_users x.recipients
is_good (Entry x) = is_tenant x.tenant && nat_le 1 x.number && nat_le 1 x.place && is_entry x.entry
is_good (Sealed x) = is_tenant x.tenant && nat_le 1 x.number && are_answers x.answers
