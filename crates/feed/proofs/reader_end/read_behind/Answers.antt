use Rattle.feed.proofs.StepLaws.{enters}
use Rattle.feed.proofs.reader_end.read_behind.Goals as goal

pub enter_as-requires : goal.enter_as-requires
enter_as-requires c x = enters _ _ x
