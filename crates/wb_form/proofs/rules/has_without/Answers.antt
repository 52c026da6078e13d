use Rattle.std.proofs.Common.{◌≡◌, not, sym, ap, ◌∙◌}
use Rattle.std.specs.List.{list_any}
use Rattle.wb_base.specs.declared.form.Field.{Field}
use Rattle.wb_base.specs.FormFields.{is_option, options_of}
use Rattle.wb_form.proofs.rules.has_without.Goals as goal

pub returns-in-Some : goal.returns-in-Some
returns-in-Some c =
    let has : c.has_option.result ≡ list_any (is_option c.args.part.now.option.now) (options_of c.in-Some.field.now.kind) = c.has_option.ensures ∙ ap (list_any (is_option c.args.part.now.option.now)) c.options_of.ensures in
    ap not has ∙ sym (c.in-Some.ensures (λ (f : Field). not (list_any (is_option c.args.part.now.option.now) (options_of f.kind))))

pub returns-in-None : goal.returns-in-None
returns-in-None c = sym (c.in-None.ensures (λ (f : Field). not (list_any (is_option c.args.part.now.option.now) (options_of f.kind))))
