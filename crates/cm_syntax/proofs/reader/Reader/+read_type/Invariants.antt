use Rattle.std.proofs.Common.{◌+◌, ◌*◌, length}
use Rattle.cm_syntax.proofs.reader.Reader.+read_type.Given as goal

abbrev pub decreases-read_type : goal.decreases-read_type
decreases-read_type l = 2 * length l.self.now.left + 1

abbrev pub decreases-read_option : goal.decreases-read_option
decreases-read_option l = 2 * length l.self.now.left
