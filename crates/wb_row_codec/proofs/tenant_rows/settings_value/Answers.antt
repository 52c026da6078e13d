use Rattle.std.proofs.Common.{ℕ, ℤ, Bool, List, ap, sym, ◌∙◌, ◌==◌, not, length}
use Rattle.std.specs.Prelude.{codes}
use Rattle.hex.specs.Hex.{encode_lower}
use Rattle.serde_json.specs.Data.{Data, Members, object, boolean, number, string, put}
use Rattle.serde_json.specs.Find.{of_integer}
use Rattle.serde_json.specs.View.{members_view}
use Rattle.serde_json.proofs.Views.{view-Object}
use Rattle.wb_model.specs.Json.{whole, date, list_of}
use Rattle.wb_row_codec.proofs.TenantRows.{put_where, settings_written}
use Rattle.wb_row_codec.proofs.tenant_rows.settings_value.Goals as goal

pub returns : goal.returns
returns c =
    let x = c.args.item.now in
    let holidays = λ (ms : Members) (days : List ℤ). put_where (not (length days == 0)) (codes "holidays", list_of date days) ms in
    let roll = λ (ms : Members) (is : Bool). put_where is (codes "roll", boolean is) ms in
    let name = λ (ms : Members) (text : List ℕ). put (codes "name") (string text) ms in
    let offset = λ (ms : Members) (value : Data). put (codes "offset") value ms in
    let salt = λ (ms : Members) (bytes : List ℕ). put (codes "salt") (string (encode_lower bytes)) ms in
    view-Object c.put_set-2.new.map ∙ (ap object (c.in_ok-put_set-2.ensures ∙ ap (put_where x.external (codes "external", boolean x.external)) (
    c.in_ok-put_holidays.ensures ∙ (ap (holidays (members_view c.put_text.new.map.entries)) c.holidays.ensures.value ∙ ap (λ ms. holidays ms x.calendar.holidays) (
    c.in_ok-put_text.ensures ∙ (ap (name (members_view c.put_whole-2.new.map.entries)) c.as_str.ensures ∙ ap (λ ms. name ms x.name) (
    c.in_ok-put_whole-2.ensures ∙ ap (put (codes "notice_days") (whole x.notice_days)) (
    c.in_ok-put_value.ensures ∙ (ap (offset (members_view c.put_whole.new.map.entries)) c.offset_value.ensures ∙ ap (λ ms. offset ms (number (of_integer x.offset))) (
    c.in_ok-put_whole.ensures ∙ ap (put (codes "quota") (whole x.quota)) (
    c.in_ok-put_set.ensures ∙ (ap (roll (members_view c.put_hex.new.map.entries)) c.rolls.ensures ∙ ap (λ ms. roll ms x.calendar.roll) (
    c.in_ok-put_hex.ensures ∙ (ap (salt (members_view c.new-map.result.entries)) c.as_slice.ensures ∙ ap (λ ms. salt ms x.salt.0) (ap members_view c.new-map.ensures.empty)))))))))))))) ∙ sym (settings_written x))
