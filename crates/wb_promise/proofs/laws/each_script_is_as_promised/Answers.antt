use Rattle.std.proofs.Common.{sym, subst}
use Rattle.wb_model.specs.Absence.{AreApart}
use Rattle.wb_promise.proofs.Forgetting.{forgets}
use Rattle.wb_promise.proofs.Identities.{keeps}
use Rattle.wb_promise.proofs.OlderScripts.{keeps_older, forgets_older}
use Rattle.wb_promise.proofs.OneStart.{one_start}
use Rattle.wb_promise.proofs.SubmissionLemmas.{all_well}
use Rattle.wb_promise.proofs.laws.each_script_is_as_promised.Goals as goal

pub returns : goal.returns
returns c loaded setup start opened frames places placed possible =
    let reading = c.one_reading.ensures.reading in
    let scripts = c.alike_scripts_get_the_same_replies.ensures in
    let openings = c.alike_openings_get_the_same_replies.ensures in
    let absence = c.absence_over_scripts.ensures in
    let older = c.absence_over_openings.ensures in
    record {
      losses = c.losses_are_told.ensures start frames places placed possible;
      submissions = all_well start places;
      identities = keeps reading (one_start c.an_opening_is_told_by_its_tables.ensures) scripts.replies scripts.rows loaded setup start frames places opened placed;
      older_identities = keeps_older reading openings.openings openings.replies openings.hosts openings.rows loaded setup start frames places opened placed;
      absence = forgets reading absence.replies absence.hosts absence.purged absence.gone older.first_rows start (λ t. subst (AreApart t) (sym opened.opens) (absence.opening t opened.opening)) frames places placed;
      older_absence = forgets_older reading older.replies older.hosts older.tables older.purged older.gone older.rows loaded setup start frames places opened placed;
    }
