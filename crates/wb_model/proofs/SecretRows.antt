-- Receipts, passwords and session secrets, computed with their digests.
use Rattle.std.proofs.Common.{◌≡◌, ℕ, true, false, [], ◌∷◌, Some, None, refl, pos}
use Rattle.std.specs.Prelude.{codes}
use Rattle.hex.specs.Hex.{encode_with}
use Rattle.sha2.specs.Sha256.{sha256, digest_bytes, hash_after, compress, rounds, schedule, first_words}
use Rattle.wb_base.specs.declared.callers.Presented.TheVariants as presented
use Rattle.wb_base.specs.declared.callers.Role.TheVariants as roles
use Rattle.wb_base.specs.declared.words.Words.{Words}
use Rattle.wb_base.specs.Secrets.{receipt_text, secret_text, digest}
use Rattle.wb_model.specs.declared.command.Command.TheVariants as commands
use Rattle.wb_model.specs.declared.entry.Actor.TheVariants as actors
use Rattle.wb_model.specs.declared.entry.Deed.TheVariants as deeds
use Rattle.wb_model.specs.declared.registry.UserItem.{UserItem}
use Rattle.wb_model.specs.Refusals.{no_session, bad_login, receipt_taken}
use Rattle.wb_model.specs.Tables.{Plain, Case, Session, TheUser, TheReporter}
use Rattle.wb_model.specs.Targets.{Nobody, Alone, On, by_password, target}
use Rattle.wb_model.specs.Changes.{TurnContext}
use Rattle.wb_model.specs.Requests.{Checked}
use Rattle.wb_model.specs.Submissions.{drawing, submission_refusal}
use Rattle.wb_model.proofs.Starter.{starter_registry, starter_tables, starter_salt, starter_user}
use Rattle.wb_model.proofs.RowPasts.{after}

-- ---- texts

abbrev words : ℕ → Words
words k = record { 0 = 0 ∷ k ∷ 0 ∷ k ∷ [] }

receipt-row : receipt_text (words 42) ≡ codes "0000000000000042"
unfolding receipt_text
receipt-row = refl

-- the number that the first two words are, modulo 10^16
long-receipt-row : receipt_text (record { 0 = 1 ∷ 0 ∷ 0 ∷ 0 ∷ [] }) ≡ codes "6744073709551616"
unfolding receipt_text
long-receipt-row = refl

secret-row : secret_text (words 42) ≡ codes "0000000000000000000000000000002a"
unfolding secret_text encode_with
secret-row = refl

-- ---- a login by name

abbrev ada : UserItem
ada = starter_user 1 (codes "ada") roles.Recipient (codes "ada-pass") true

login-row : by_password starter_salt (codes "ada-pass") (Some ada) ≡ Alone (Some (TheUser 1))
unfolding digest sha256 digest_bytes hash_after compress rounds schedule first_words
login-row = refl

wrong-password-row : by_password starter_salt (codes "ada-pas") (Some ada) ≡ Nobody bad_login
unfolding digest sha256 digest_bytes hash_after compress rounds schedule first_words
wrong-password-row = refl

-- ---- receipts

-- the report that a submission with the words 0, 42, 0, 42 began, and user 1's session that a login with the words 0, 7, 0, 7 made
abbrev begun : Case
begun = record { number = 1; trail = record { at = after 0; by = actors.Reporter; deed = deeds.Submitted (pos 20_096) [] 1 (pos 20_119) (pos 20_186) 1 false (1 ∷ []) (digest starter_salt (receipt_text (words 42))) (pos 20_089) 1 } ∷ [] }

abbrev standing : Session
standing = record { turn = 2; digest = digest starter_salt (secret_text (words 7)); role = roles.Recipient; who = TheUser 1; at = after 0 }

abbrev one : Plain
one = record starter_tables.plain { cases = begun ∷ []; sessions = standing ∷ [] }

abbrev drawn : ℕ → TurnContext
drawn k = record { time = after 10; turn = 3; words = words k }

taken-row : submission_refusal 50 (drawing (drawn 42) one) (Checked None [] false) ≡ Some receipt_taken
unfolding starter_registry receipt_text digest sha256 digest_bytes hash_after compress rounds schedule first_words
taken-row = refl

other-row : submission_refusal 50 (drawing (drawn 43) one) (Checked None [] false) ≡ None
unfolding starter_registry receipt_text digest sha256 digest_bytes hash_after compress rounds schedule first_words
other-row = refl

-- what is not there any more takes no receipt
gone-row : submission_refusal 50 (drawing (drawn 42) (record one { cases = [] })) (Checked None [] false) ≡ None
unfolding starter_registry
gone-row = refl

reporter-row : target one presented.None (commands.ReceiptLogin 1 (codes "0000000000000042")) ≡ On (TheReporter 1) begun
unfolding starter_registry receipt_text digest sha256 digest_bytes hash_after compress rounds schedule first_words
reporter-row = refl

no-reporter-row : target one presented.None (commands.ReceiptLogin 1 (codes "0000000000000043")) ≡ Nobody bad_login
unfolding starter_registry receipt_text digest sha256 digest_bytes hash_after compress rounds schedule first_words
no-reporter-row = refl

-- ---- sessions

session-row : target one (presented.Token 2 (codes "00000000000000000000000000000007")) (commands.Logout 1) ≡ Alone (Some (TheUser 1))
unfolding starter_registry secret_text encode_with digest sha256 digest_bytes hash_after compress rounds schedule first_words
session-row = refl

other-secret-row : target one (presented.Token 2 (codes "00000000000000000000000000000008")) (commands.Logout 1) ≡ Nobody no_session
unfolding starter_registry secret_text encode_with digest sha256 digest_bytes hash_after compress rounds schedule first_words
other-secret-row = refl

other-turn-row : target one (presented.Token 3 (codes "00000000000000000000000000000007")) (commands.Logout 1) ≡ Nobody no_session
unfolding starter_registry secret_text encode_with digest sha256 digest_bytes hash_after compress rounds schedule first_words
other-turn-row = refl
