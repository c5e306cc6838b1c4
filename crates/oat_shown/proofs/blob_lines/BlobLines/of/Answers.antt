use Rattle.oat_shown.proofs.Lines.{lines_whole}
use Rattle.oat_shown.proofs.blob_lines.BlobLines.of.Goals as goal

pub returns : goal.returns
returns c = lines_whole c.args.blobs.items
