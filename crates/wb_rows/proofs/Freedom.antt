-- What refuses a deed that was done, by the act or move that it is like.
use Rattle.std.proofs.Common.{◌≡◌, ℕ, false, not, List, length, Option, Some, None, refl, ap, ◌∙◌, option_map}
use Rattle.std.specs.Prelude.{is_some}
use Rattle.wb_model.specs.declared.access.AccessRequest.{AccessRequest}
use Rattle.wb_model.specs.declared.act.Act.{Act}
use Rattle.wb_model.specs.declared.act.Move.{Move}
use Rattle.wb_model.specs.declared.entry.Entry.{Entry}
use Rattle.wb_model.specs.Access.{requests}
use Rattle.wb_model.specs.Acts.{case_fault}
use Rattle.wb_model.specs.Doings.{Doing, Acts, Moves}
use Rattle.wb_model.specs.Faults.{case_told, custody_told}
use Rattle.wb_model.specs.Legal.{is_free}
use Rattle.wb_model.specs.Moves.{custody_fault}
use Rattle.wb_model.specs.Trails.{has_identity}
use Rattle.wb_rows.specs.Legality.{IsActLike, IsMoveLike}

mapped : {X Y : Type 0} (f : X → Y) (o : Option X) → is_some (option_map f o) ≡ is_some o
mapped f None = refl
mapped f (Some x) = refl

pub act-free : (trail : List Entry) (user : ℕ) (o : Option Doing) (act : Act) → IsActLike o (Some act) → is_free trail user o ≡ not (is_some (case_fault trail act))
act-free trail user None act like = absurd like
act-free trail user (Some (Moves move)) act like = absurd like
act-free trail user (Some (Acts own)) act like = ap not (mapped case_told (case_fault trail own)) ∙ ap (λ o. not (is_some o)) (like trail)

pub move-free : (trail : List Entry) (user : ℕ) (asked : List AccessRequest) (o : Option Doing) (move : Move) → requests trail ≡ asked → IsMoveLike asked o (Some move) → is_free trail user o ≡ not (is_some (custody_fault (length trail) (has_identity trail) asked user move))
move-free trail user asked None move same like = absurd like
move-free trail user asked (Some (Acts act)) move same like = absurd like
move-free trail user asked (Some (Moves own)) move same like =
    ap not (mapped custody_told (custody_fault (length trail) (has_identity trail) (requests trail) user own))
    ∙ (ap (λ rs. not (is_some (custody_fault (length trail) (has_identity trail) rs user own))) same
    ∙ ap (λ o. not (is_some o)) (like (length trail) (has_identity trail) user))

pub none-free : (trail : List Entry) (user : ℕ) (asked : List AccessRequest) (o : Option Doing) → IsActLike o None → IsMoveLike asked o None → is_free trail user o ≡ false
none-free trail user asked None act move = refl
none-free trail user asked (Some (Acts own)) act move = absurd act
none-free trail user asked (Some (Moves own)) act move = absurd move
