use Rattle.wb_custody.proofs.LegalRequests.{legal-few, legal-actors, legal-actor}
use Rattle.wb_custody.proofs.laws.what_legal_trails_say_of_requests.Goals as goal

pub returns-clause-few : goal.returns-clause-few
returns-clause-few c = legal-few

pub returns-clause-actors : goal.returns-clause-actors
returns-clause-actors c = legal-actors

pub returns-clause-actor : goal.returns-clause-actor
returns-clause-actor c = legal-actor
