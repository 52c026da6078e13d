use Rattle.wb_notice.proofs.NoticeTexts.{if_read}
use Rattle.wb_notice.proofs.reading.day_named.Goals as goal

pub returns-else-eq-clause-dated : goal.returns-else-eq-clause-dated
returns-else-eq-clause-dated c = if_read c.read_date.result c.args.name.now c.read_date.ensures
