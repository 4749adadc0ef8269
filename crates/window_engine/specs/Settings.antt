-- What an engine may be set to (this project's own profile).
use Rattle.std.specs.Prelude.{◌≤◌, ◌<◌}
use Rattle.window_engine.specs.declared.setting.Setting.{Setting}

pub record IsSetting (setting : Setting) : Type 0 where
  pub workers : (0 < setting.workers) × (setting.workers ≤ 16)
  pub paths : (0 < setting.paths) × (setting.paths ≤ 16)
  pub b : (0 < setting.b) × (setting.b ≤ 64)
  pub g : (0 < setting.g) × (setting.g ≤ 16)
