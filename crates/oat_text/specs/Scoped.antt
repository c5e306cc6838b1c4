-- The names that a line may use, as reading sees them (docs/FORMATS.md, "Program text").
use Rattle.oat_text.specs.{declared.scope.Scope.Scope, Bodies.Scope as Names}

abbrev pub scoped : Scope → Names
scoped s = record { globals = s.globals.now; funcs = s.funcs.now; locals = s.locals.now; labels = s.labels.now }
