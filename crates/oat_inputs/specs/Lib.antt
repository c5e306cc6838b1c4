pub use Rattle.oat_first.specs.First.{First, IsDecisive, IsOne, Tests, fails, passes}
pub use Rattle.oat_lines.specs.FaultText.{fault_text}
pub use Rattle.oat_lines.specs.declared.fault.Fault.{Fault}
pub use Rattle.oat_lines.specs.declared.fault.Fault.TheVariants.{Memory}
pub use Rattle.oat_image.specs.Grammar.{image_text}
pub use Rattle.oat_image.specs.declared.image.Image.{Image}
pub use Rattle.oat_shape.specs.MapRules.{S7}
pub use Rattle.oat_shape.specs.Shape.{Covers}
pub use Rattle.oat_case.specs.Grammar.{IsCaseText}
pub use Rattle.oat_page.specs.Answer.{Answer, as_outcome, no_operation, refused}
pub use Rattle.oat_page.specs.Limits.{case_limit, program_limit}
pub use Rattle.oat_page.specs.Loads.{File}
pub use Rattle.oat_page.specs.Works.{IsRefusal, RefusesWith, StopsWith}
pub use Rattle.oat_page.specs.declared.page.Stop.{Stop}
pub mod BlobText
pub mod Refusals
pub mod Admits
