use Rattle.std.proofs.Common.{◌≡◌, inl, inr, ◌∷◌, [], ◌∙◌, ap, sym, refl, false}
use Rattle.std.proofs.lemmas.Bool.{and_parts}
use Rattle.clap.proofs.WalkLemmas.{first_value-rows}
use Rattle.clap.specs.Walk.{first_of}
use Rattle.clap.specs.Matches.{found_of}
use Rattle.clap.specs.Kinds.{Kinds, IsAmong}
use Rattle.clap.specs.declared.error.kind.ErrorKind.{ErrorKind}
use Rattle.wb_cli.specs.CommandLine.{has_none, takes_words, value_of}
use Rattle.wb_cli.proofs.apps.matched.Goals as goal

some_kind : (k : ErrorKind) (ks : Kinds) → IsAmong k ks → has_none ks ≡ false
some_kind k [] h = absurd h
some_kind k (x ∷ xs) h = refl

pub returns-in-Ok-clause-taken : goal.returns-in-Ok-clause-taken
unfolding takes_words
returns-in-Ok-clause-taken c = ap has_none (c.in-Ok.ensures.kinds c.requires)

pub returns-in-Ok-clause-values : goal.returns-in-Ok-clause-values
unfolding value_of
returns-in-Ok-clause-values c =
    let rows = (c.in-Ok.ensures.matches (and_parts _ _ c.requires).0).0 in
    λ name. ap (first_of name) (sym rows) ∙ sym (first_value-rows (found_of c.in-Ok.matches) name)

pub returns-clause-usage : goal.returns-clause-usage
unfolding takes_words
returns-clause-usage c = λ _. elim (c.in-Err.ensures.kinds c.requires) [
  | inl memory ↦ absurd (c.in_default.not-OutOfMemory (c.kind.ensures ∙ memory))
  | inr among ↦ some_kind _ _ among
]
