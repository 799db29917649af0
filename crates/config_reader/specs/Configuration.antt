-- What contracts see of a configuration: its requirements and its musts, each numbered by its place in the list.
use Rattle.std.specs.Prelude.{◌≤◌, List, [], length}
use Rattle.config_reader.specs.declared.config.Requirement.{Requirement}

pub record Configuration : Type 0 where
  pub requirements : List Requirement
  pub musts : List Requirement

-- how many there may be of each; a file gives at most 4,096 musts
pub record IsWithin (requirements musts : List Requirement) : Type 0 where
  pub requirements_few : length requirements ≤ 4096
  pub musts_few : length musts ≤ 8192

-- the configuration whose requirements are the musts, and that has no musts
abbrev pub of_musts : Configuration → Configuration
of_musts config = record { requirements = config.musts; musts = [] }
