pub use Rattle.oat_check.specs.{SourceEdge, SourceEnd}
pub use Rattle.oat_check.specs.Rules.{has_operation}
pub use Rattle.oat_build.specs.{Case, DeviceEnd, IsWellFormedCase, OutOfSteps, Program, calls_done, instructions_for}
pub use Rattle.oat_build.specs.Built.{IsImageOf}
pub use Rattle.oat_page.specs.Answer.{Answer, refused, shows}
pub use Rattle.oat_page.specs.Limits.{case_limit, program_limit}
pub use Rattle.oat_page.specs.Loads.{File}
pub use Rattle.oat_page.specs.Outcome.{line}
pub use Rattle.oat_page.specs.Works.{StopsWith, Works, answer_in}
pub use Rattle.oat_page.specs.declared.page.Ended.TheVariants.{Done}
pub use Rattle.oat_page.specs.declared.page.Page.{Page}
pub use Rattle.oat_page.specs.declared.page.Stop.{Stop}
pub use Rattle.oat_inputs.specs.{Covers, First, Image, S7, Tests, fails, image_text, passes}
pub use Rattle.oat_inputs.specs.Admits.{Admits, AreAdmitted}
pub use Rattle.oat_inputs.specs.BlobText.{HasDigits, IsBlobText}
pub use Rattle.oat_inputs.specs.Refusals.{RefusesBlob, RefusesImage, RefusesShape}
pub mod Programs
