use Rattle.std.proofs.Common.{◌<◌, length}
use Rattle.reading.specs.Items.{left_to_read}
use Rattle.printing.proofs.stream_analysis.StreamAnalysis.read_framed.Given as goal

abbrev pub invariant-loop-stream : goal.invariant-loop-stream
invariant-loop-stream g l = 0 < length l.piece.items

abbrev pub decreases-loop-stream : goal.decreases-loop-stream
decreases-loop-stream g l = left_to_read l.stream.items
