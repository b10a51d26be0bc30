use Rattle.feed.proofs.StepLaws.{admits, tells, joins}
use Rattle.feed.proofs.opening.new_reader_end.Goals as goal

pub reader-requires : goal.reader-requires
reader-requires c = admits

pub tell-note-requires : goal.tell-note-requires
tell-note-requires c = tells _ _

pub learn-requires-clause-rule : goal.learn-requires-clause-rule
learn-requires-clause-rule c = joins _ _ _ _
