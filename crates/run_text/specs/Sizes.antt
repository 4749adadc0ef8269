-- The numbers that are set for a run (this project's own profile).
use Rattle.std.specs.Prelude.{◌<◌, ◌≤◌}
use Rattle.run_text.specs.declared.sizes.Sizes.{Sizes}

-- each within its limits
pub record AreSizes (sizes : Sizes) : Type 0 where
  pub b : (0 < sizes.b) × (sizes.b ≤ 64)
  pub g : (0 < sizes.g) × (sizes.g ≤ 16)
  pub workers : (0 < sizes.workers) × (sizes.workers ≤ 16)
  pub paths : (0 < sizes.paths) × (sizes.paths ≤ 16)
