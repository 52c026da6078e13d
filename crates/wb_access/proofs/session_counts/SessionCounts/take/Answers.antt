use Rattle.std.proofs.Common.{◌≡◌, ℕ, ◌+◌, ◌-◌, List, cond, Some, None, IsSome, subst, refl, sym, ap, ◌∙◌, arith}
use Rattle.std.specs.Map.{lookup}
use Rattle.std.specs.Option.{unwrap_or}
use Rattle.wb_list.specs.Room.{Room}
use Rattle.wb_base.specs.declared.callers.Principal.{Principal}
use Rattle.wb_access.specs.SessionCounts.{Counted, key_of, same_key, count_in}
use Rattle.wb_access.specs.Sessions.{same_principal}
use Rattle.wb_access.proofs.CountTables.{one_key, none_is, put_is, one_less}
use Rattle.wb_access.proofs.session_counts.SessionCounts.take.Goals as goal

-- what the table has under the key of the principal
module _ (p : Principal) (key : ℕ × ℕ × ℕ) (is : key ≡ key_of p) (old : List Counted) (room : Room Counted) (same : old ≡ room.items) where
  held : (n : ℕ) → Some n ≡ lookup (same_key key) old → count_in p room.items ≡ n
  held n found = ap (count_in p) (sym same) ∙ (ap (λ k. unwrap_or (lookup (same_key k) old) 0) (sym is) ∙ ap (λ o. unwrap_or o 0) (sym found))

  -- after one count is put there
  put : (n : ℕ) (q : Principal) → unwrap_or (cond (same_key key (key_of q)) (Some n) (lookup (same_key (key_of q)) old)) 0 ≡ cond (same_principal p q) n (count_in q room.items)
  put n q = put_is (same_key key (key_of q)) n (lookup (same_key (key_of q)) old)
      ∙ (ap (λ k. cond (same_key k (key_of q)) n (count_in q old)) is
      ∙ (ap (λ b. cond b n (count_in q old)) (one_key p q)
      ∙ ap (λ l. cond (same_principal p q) n (count_in q l)) same))

  -- after it is taken out
  out : (q : Principal) → unwrap_or (cond (same_key key (key_of q)) None (lookup (same_key (key_of q)) old)) 0 ≡ cond (same_principal p q) 0 (count_in q room.items)
  out q = none_is (same_key key (key_of q)) (lookup (same_key (key_of q)) old)
      ∙ (ap (λ k. cond (same_key k (key_of q)) 0 (count_in q old)) is
      ∙ (ap (λ b. cond b 0 (count_in q old)) (one_key p q)
      ∙ ap (λ l. cond (same_principal p q) 0 (count_in q l)) same))

pub overflow_sub-count : goal.overflow_sub-count
overflow_sub-count c =
    let e = held c.args.principal.now c.key-else-of-eq1.result c.key-else-of-eq1.ensures c.self.inside.counts.entries c.args.self.now (ap (λ (r : Room Counted). r.items) c.self.view_is) c.in-Some.count.now c.in-Some.ensures.value in
    let has = c.requires.has in
    omega (arith, e, has)

pub returns-then-of-eq1-clause-counts : goal.returns-then-of-eq1-clause-counts
returns-then-of-eq1-clause-counts c q =
    let p = c.args.principal.now in
    ap (λ o. cond (same_principal p q) 1 0 + unwrap_or o 0) (c.remove.ensures.updates.0 (key_of q))
    ∙ (ap (λ n. cond (same_principal p q) 1 0 + n) (out p c.key.result c.key.ensures c.self.inside.counts.entries c.args.self.now (ap (λ (r : Room Counted). r.items) c.self.view_is) q)
    ∙ one_less p q 0 c.args.self.now.items (sym c.of.ensures ∙ c.if-of-eq1.true))

pub returns-in-Some-clause-counts : goal.returns-in-Some-clause-counts
returns-in-Some-clause-counts c q =
    let p = c.args.principal.now in
    let n = c.in-Some.count.now in
    let at = ap (λ (r : Room Counted). r.items) c.self.view_is in
    let e = held p c.key-else-of-eq1.result c.key-else-of-eq1.ensures c.self.inside.counts.entries c.args.self.now at n c.in-Some.ensures.value in
    let has = c.requires.has in
    let less : count_in p c.args.self.now.items ≡ (n - 1) + 1 = omega (arith, e, has) in
    let written = (c.get_mut.follows.holds (n - 1)).3 (subst IsSome c.in-Some.ensures.value refl) in
    ap (λ o. cond (same_principal p q) 1 0 + unwrap_or o 0) (written.0 (key_of q))
    ∙ (ap (λ m. cond (same_principal p q) 1 0 + m) (put p c.key-else-of-eq1.result c.key-else-of-eq1.ensures c.self.inside.counts.entries c.args.self.now at (n - 1) q)
    ∙ one_less p q (n - 1) c.args.self.now.items less)
