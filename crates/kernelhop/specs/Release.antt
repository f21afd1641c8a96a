-- A release's number. Assumes nothing: this is a definition.
use Rattle.std.specs.Prelude.{ℕ, ◌+◌, ◌*◌}

-- major.minor.patch as one number, so that a later release has a larger one: two decimal digits each for minor and patch
abbrev pub release : ℕ → ℕ → ℕ → ℕ
release major minor patch = major * 10000 + minor * 100 + patch
