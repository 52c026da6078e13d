-- A body that is decoded piece by piece.
use Rattle.std.proofs.Common.{◌≡◌, ℕ, ◌+◌, ◌≤◌, List, [], ◌++◌, length, drop, sym, subst, arith}
use Rattle.std.proofs.Math.Seq.{drop-length}
use Rattle.std.proofs.lemmas.List.{append-nil, append_assoc, length-drop, drop-drop}
use Rattle.httparse.specs.declared.spans.HeaderSpan.{HeaderSpan}
use Rattle.http1.specs.declared.framing.Framing.{Framing}
use Rattle.http1.specs.declared.decode.Decoder.{Decoder}
use Rattle.http1.specs.Body.{Body, body_of}
use Rattle.http1.specs.Decoder.{decoder_for, Completes, with_front, Continues, Ends}
use Rattle.http1.proofs.OneParse.{body_from_completes}
use Rattle.wb_etcd.specs.Answers.{answer_limits, IsWholeBody}

-- what a decoder waits for behind a place of the bytes is, with the content so far in front, a whole body
pub record Waits (framing : Framing) (decoder : Decoder) (bytes content : List ℕ) (at : ℕ) : Type 0 where
  pub within : at ≤ length bytes
  pub whole : (body : Body) → Completes decoder (drop at bytes) body [] → Completes (decoder_for answer_limits framing) bytes (with_front content body) []

pub begins : (framing : Framing) (bytes : List ℕ) → Waits framing (decoder_for answer_limits framing) bytes [] 0
begins framing bytes = record { within = omega arith; whole = λ body done. done }

-- one more piece of content
pub goes_on : (framing : Framing) (old new : Decoder) (bytes rest content piece : List ℕ) (at len : ℕ) → Waits framing old bytes content at → rest ≡ drop at bytes → Continues old rest new len piece → Waits framing new bytes (content ++ piece) (at + len)
goes_on framing old new bytes rest content piece at len held is going =
    let next : Continues old (drop at bytes) new len piece = subst (λ (xs : List ℕ). Continues old xs new len piece) is going in record {
      within = omega (arith, held.within, next.within, length-drop at bytes);
      whole = λ body done.
          let place : drop (at + len) bytes ≡ drop len (drop at bytes) = sym (drop-drop len at bytes) in
          let here : Completes new (drop len (drop at bytes)) body [] = subst (λ (xs : List ℕ). Completes new xs body []) place done in
          let there : Completes new (drop len (drop at bytes) ++ []) body [] = subst (λ (xs : List ℕ). Completes new xs body []) (sym (append-nil (drop len (drop at bytes)))) here in
          let before : Completes old (drop at bytes) (with_front piece body) [] = subst (λ (xs : List ℕ). Completes old xs (with_front piece body) []) (append-nil (drop at bytes)) (next.back [] body [] there) in
          subst (λ (bs : List ℕ). Completes (decoder_for answer_limits framing) bytes (record body { bytes = bs }) []) (sym (append_assoc content piece body.bytes)) (held.whole (with_front piece body) before);
    }

-- the end of the body is the end of the bytes
pub ended : (framing : Framing) (old : Decoder) (bytes rest content : List ℕ) (at : ℕ) (spans : List HeaderSpan) (len count : ℕ) → Waits framing old bytes content at → rest ≡ drop at bytes → Ends old rest spans len count → len ≡ length rest → IsWholeBody framing bytes content
ended framing old bytes rest content at spans len count held is ends all =
    let body : Body = body_of [] ends.trailers in
    let gone : drop len rest ++ [] ≡ [] = rw (append-nil (drop len rest), all) (drop-length rest) in
    let done : Completes old (rest ++ []) body (drop len rest ++ []) = ends.completes [] in
    let here : Completes old rest body (drop len rest ++ []) = subst (λ (xs : List ℕ). Completes old xs body (drop len rest ++ [])) (append-nil rest) done in
    let last : Completes old rest body [] = subst (λ (xs : List ℕ). Completes old rest body xs) gone here in
    let whole : Completes old (drop at bytes) body [] = subst (λ (xs : List ℕ). Completes old xs body []) is last in
    record {
      body = with_front content body;
      reads = body_from_completes answer_limits framing bytes (with_front content body) [] (held.whole body whole);
      holds = append-nil content;
    }
