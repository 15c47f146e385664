use Rattle.mj_safety.proofs.Winless.{safe_tiles_are_safe}
use Rattle.mj_safety.proofs.safe_tiles_are_safe.Goals as goal

pub returns : goal.returns
returns c = safe_tiles_are_safe
