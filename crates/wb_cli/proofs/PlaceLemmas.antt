-- Words that say where rows are kept.
use Rattle.std.proofs.Common.{◌≡◌, ◌∙◌, ℕ, List, [], ◌∷◌, Option, Some, None, Bool, true, false, refl, sym, ap, subst, inl, inr, length, arith, drop, MatchBool}
use Rattle.std.specs.Prelude.{codes}
use Rattle.std.specs.Str.Pattern.{FindsTextPrefix, HasPrefixMatch}
use Rattle.wb_etcd.specs.StoreNames.{IsStoreName, name_text}
use Rattle.wb_cli.specs.Places.{BeginsAsEtcd, IsStoreWord}
use Rattle.wb_cli.specs.CommandLine.{SaysFile, SaysPath}

-- what `starts_with` says
pub begins : (r : Bool) (word : List ℕ) → MatchBool r (HasPrefixMatch (FindsTextPrefix (codes "etcd://")) word) (FindsTextPrefix (codes "etcd://") word None) → MatchBool r (BeginsAsEtcd word) (BeginsAsEtcd word → ⊥)
begins true word has = (drop has.0 word, has.1.1)
begins false word lacks = λ (rest, is). lacks rest is

pub no_word : (word : List ℕ) → length word ≡ 0 → IsStoreWord word → ⊥
unfolding name_text
no_word [] none (inl file) = file.some refl
no_word (b ∷ bs) none (inl file) = absurd (omega (arith, none))
no_word word none (inr (endpoints, prefix, is)) = absurd (omega (arith, none, ap length is.named))

-- the name of a store is that of its endpoints and prefix
pub named_so : (word : List ℕ) (endpoints : List (List ℕ)) (prefix : List ℕ) → IsStoreName word endpoints prefix → IsStoreName (name_text endpoints prefix) endpoints prefix
named_so word endpoints prefix is = record { some = is.some; reached = is.reached; kept = is.kept; named = refl }

pub no_store : (word : List ℕ) → BeginsAsEtcd word → ((endpoints : List (List ℕ)) (prefix : List ℕ) → IsStoreName word endpoints prefix → ⊥) → IsStoreWord word → ⊥
no_store word begun none (inl file) = file.plain begun
no_store word begun none (inr (endpoints, prefix, is)) = none endpoints prefix is

-- ---- paths of files

pub file_path : (word : Option (List ℕ)) (path : List ℕ) → SaysFile word path → SaysPath word path
file_path None path says = absurd says
file_path (Some w) path says = (says.0, says.1.some)

pub path_file : (word : Option (List ℕ)) (path : List ℕ) → SaysPath word path → (BeginsAsEtcd path → ⊥) → SaysFile word path
path_file None path says plain = absurd says
path_file (Some w) path says plain = (says.0, record { some = says.1; plain = plain })

pub no_file : (word : Option (List ℕ)) (path other : List ℕ) → SaysPath word path → BeginsAsEtcd path → SaysFile word other → ⊥
no_file None path other says begun file = absurd says
no_file (Some w) path other says begun file = file.1.plain (subst BeginsAsEtcd (sym says.0 ∙ file.0) begun)
