-- What a delivery comes to: what is new, or why there is nothing.
use Rattle.std.specs.Prelude.{◌≡◌, ℕ, List, ◌∷◌, ◌++◌, All}
use Rattle.wb_base.specs.declared.rows.Key.{Key}
use Rattle.wb_base.specs.declared.rows.Row.{Row}
use Rattle.wb_base.specs.KeptRows.{IsGoodChange, all_changed, key_cmp, key_of}
use Rattle.wb_base.specs.Outside.{Rose}
use Rattle.wb_list.specs.Keyed.{IsAscending}
use Rattle.wb_notice.specs.declared.outbox.NoticeNo.{NoticeNo}
use Rattle.wb_notice.specs.declared.outbox.NoticeNo.TheVariants.{Keeper, OutboxRows, Memory}
use Rattle.wb_notice.specs.declared.outbox.News.{News}
use Rattle.wb_notice.specs.declared.outbox.Plan.{Plan}
use Rattle.wb_notice.specs.Notices.{IsNotice}
use Rattle.wb_notice.specs.Outbox.{box, new_notices, new_rows}
use Rattle.wb_notice.specs.Owed.{Unsealed}
use Rattle.wb_base.specs.Ends.{KeeperEnd}

-- ---- the rows of an outbox

-- these rows were loaded, in the order of their keys: those that it held where it is honest
pub record AreOutboxRows (outbox outbox' : KeeperEnd) (rows : List Row) : Type 0 where
  pub held : outbox'.honest → (before : List Row) → outbox.holds before → before ≡ rows
  pub ascending : IsAscending key_cmp key_of rows

-- the first row that is no notice's has this key
pub record IsFirstOther (rows : List Row) (key : Key) : Type 0 where
  pub before : List Row
  pub row : Row
  pub after : List Row
  pub parts : rows ≡ before ++ row ∷ after
  pub notices : All IsNotice before
  pub other : ¬ IsNotice row
  pub has : row.key ≡ key

-- a row is no notice's, or there was no memory
abbrev pub ReadsNoNotices : List Row → NoticeNo → Type 0
ReadsNoNotices rows Keeper = ⊥
ReadsNoNotices rows (OutboxRows key) = IsFirstOther rows key
ReadsNoNotices rows Memory = Unit {0}

-- ---- what is delivered

-- the notices that are new, and their rows
pub record AreNew (x : Unsealed) (now : ℕ) (rows : List Row) (news : News) : Type 0 where
  pub notices : news.notices.items ≡ new_notices x now rows
  pub added : news.rows.items ≡ new_rows x now rows

-- each row is a notice's, and the changes make of the rows what a delivery is to leave
pub record PlansDelivery (x : Unsealed) (now : ℕ) (rows : List Row) (plan : Plan) : Type 0 where
  pub notices : All IsNotice rows
  pub news : AreNew x now rows plan.news
  pub changes : all_changed rows plan.batch.items ≡ box x now rows
  pub good : All IsGoodChange plan.batch.items

-- each row that was loaded is a notice's, and these are the new ones
pub record Delivers (outbox outbox' : KeeperEnd) (x : Unsealed) (now : ℕ) (news : List Row) : Type 0 where
  pub rows : List Row
  pub loaded : AreOutboxRows outbox outbox' rows
  pub notices : All IsNotice rows
  pub added : news ≡ new_rows x now rows

-- .. and these are their notices
pub record Sends (outbox outbox' : KeeperEnd) (x : Unsealed) (now : ℕ) (sent : News) : Type 0 where
  pub rows : List Row
  pub loaded : AreOutboxRows outbox outbox' rows
  pub notices : All IsNotice rows
  pub news : AreNew x now rows sent

-- ---- why nothing is

-- the outbox failed, or there was no memory
abbrev pub Fails : KeeperEnd → KeeperEnd → NoticeNo → Type 0
Fails outbox outbox' Keeper = Rose outbox.count outbox'.count
Fails outbox outbox' (OutboxRows key) = ⊥
Fails outbox outbox' Memory = outbox'.count ≡ outbox.count

-- the outbox failed; or a row that was loaded is no notice's, and this is the least key of such a row; or there was no memory
abbrev pub RefusesDelivery : KeeperEnd → KeeperEnd → NoticeNo → Type 0
RefusesDelivery outbox outbox' Keeper = Rose outbox.count outbox'.count
RefusesDelivery outbox outbox' (OutboxRows key) = ((rows : List Row) × AreOutboxRows outbox outbox' rows × IsFirstOther rows key) × (outbox'.count ≡ outbox.count)
RefusesDelivery outbox outbox' Memory = outbox'.count ≡ outbox.count
