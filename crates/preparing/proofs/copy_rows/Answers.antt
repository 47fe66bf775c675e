-- `preparing::copy_rows` meets its contract: the first `i` rows are copied. Assumes nothing.
use Rattle.preparing.proofs.copy_rows.Goals as goal
