use Rattle.wb_sqlite.proofs.SentKeeper.{keeper_send_as_argument}
use Rattle.whistle.proofs.serve_at.Goals as goal

pub listen-requires-send-K : goal.listen-requires-send-K
listen-requires-send-K g c κs within = search keeper_send_as_argument
