-- The number of every class of position.
use Rattle.std.specs.Prelude.{ℕ, cond, Some, None, Option, ◌==◌}
use Rattle.dayfile.specs.declared.record.Class.{Class}
use Rattle.dayfile.specs.declared.record.Class.TheVariants.{Generation, Load, Import, Export}

abbrev pub class_number : Class → ℕ
class_number Generation = 1
class_number Load = 2
class_number Import = 3
class_number Export = 4

-- the class that has the number, if one has
abbrev pub class_of : ℕ → Option Class
class_of n =
    cond (n == class_number Generation) (Some Generation)
    (cond (n == class_number Load) (Some Load)
    (cond (n == class_number Import) (Some Import)
    (cond (n == class_number Export) (Some Export) None)))
