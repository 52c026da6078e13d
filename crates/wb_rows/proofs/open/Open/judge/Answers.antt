use Rattle.std.proofs.Common.{◌≡◌, Bool, true, Result, Ok, Err, sym, ◌∙◌, subst, rules}
use Rattle.std.specs.Prelude.{◌&&◌, IfOk}
use Rattle.wb_model.specs.Access.{user_by}
use Rattle.wb_model.specs.Legal.{done, is_free}
use Rattle.wb_rows.specs.Legality.{IsActLike, IsMoveLike, IsRoomLike, is_fit_after}
use Rattle.wb_rows.specs.Reckoned.{reckoned}
use Rattle.wb_rows.proofs.Freedom.{act-free, move-free}
use Rattle.wb_rows.proofs.open.Open.judge.Goals as goal

both : (a b x : Bool) → a ≡ true → x ≡ b → x ≡ (a && b)
both a b x ha hx = rw ha hx

pub returns-in-Some-clause-next : goal.returns-in-Some-clause-next
returns-in-Some-clause-next c =
    let trail = c.args.self.now.case.items in
    let entry = c.args.entry.now in
    let fit : is_fit_after (reckoned c.args.days.now) c.args.self.now.last trail entry ≡ true = search rules in
    both (is_fit_after (reckoned c.args.days.now) c.args.self.now.last trail entry) (is_free trail (user_by entry.by) (done trail entry.deed)) c.is_act_free.result fit
    (c.is_act_free.ensures ∙ sym (act-free trail (user_by entry.by) (done trail entry.deed) c.in-Some.act (subst (IsActLike (done trail entry.deed)) c.in-Some.is (c.act_of.ensures trail))))

pub returns-in-Some-2-clause-room : goal.returns-in-Some-2-clause-room
returns-in-Some-2-clause-room c = λ free. (subst (λ found. IsRoomLike found c.args.entry.now.deed) c.in-Some-2.is c.in_ok-move_.ensures.room) c.args.entry.now.at c.is_move_free.new.self.desk (c.is_move_free.ensures.room free)

-- what follows of a value that there is
each : {X E : Type 0} {P Q : X → Type 0} (r : Result X E) → IfOk r P → ((x : X) → P x → Q x) → IfOk r Q
each (Ok x) p step = step x p
each (Err e) p step = tt

pub returns-in-Some-2-clause-next : goal.returns-in-Some-2-clause-next
returns-in-Some-2-clause-next c =
    let trail = c.args.self.now.case.items in
    let entry = c.args.entry.now in
    let asked = c.args.self.now.desk.items in
    let fit : is_fit_after (reckoned c.args.days.now) c.args.self.now.last trail entry ≡ true = search rules in
    let free = move-free trail (user_by entry.by) asked (done trail entry.deed) c.in-Some-2.move_ (sym c.requires.open.requests) (subst (IsMoveLike asked (done trail entry.deed)) c.in-Some-2.is (c.in_ok-move_.ensures.like trail (sym c.requires.open.requests))) in
    each c.is_move_free.result c.is_move_free.ensures.free (λ found is. both (is_fit_after (reckoned c.args.days.now) c.args.self.now.last trail entry) (is_free trail (user_by entry.by) (done trail entry.deed)) found fit (is ∙ sym free))
