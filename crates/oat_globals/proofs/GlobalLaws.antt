-- The laws of lines on global data and of operations, for the crates above: the statements stand in specs/, each under the name of its law.
--
-- Scalars, references, elements.
pub use Rattle.oat_globals.proofs.Scalars.{loads_lead, stores_lead, references_lead}
pub use Rattle.oat_globals.proofs.Elements.{element_loads_lead, element_stores_lead, elements_trap}
-- Critical scalars and arrays.
pub use Rattle.oat_globals.proofs.CriticalScalars.{critical_loads_lead, critical_stores_lead}
pub use Rattle.oat_globals.proofs.CriticalElements.{critical_element_loads_lead, critical_element_stores_lead, critical_element_loads_trap, critical_element_stores_trap}
-- Operations.
pub use Rattle.oat_globals.proofs.Operations.{starts_stand, operation_calls_lead, operation_returns_lead}
-- Words and ranges.
pub use Rattle.oat_globals.proofs.Sizes.{prologue_words, words_of_global_lines}
pub use Rattle.oat_globals.proofs.Ranges.{global_lines_are_in_range}
