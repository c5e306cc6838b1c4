-- The laws of frames, for the crates above: what calls, returns and the start of a run come to (the statements stand in specs/, each under the name of its law), and what holds of frames where registers and memory change.
--
-- Calls, returns, the start.
pub use Rattle.oat_frames.proofs.Calling.{calls-lay-frames, calls-lead, deep-calls-trap}
pub use Rattle.oat_frames.proofs.IndirectCalling.{indirect-calls-lead, null-calls-trap}
pub use Rattle.oat_frames.proofs.Returning.{returns-come-back, returns-lead}
pub use Rattle.oat_frames.proofs.Starting.{start-leads}
-- Values and their words; a frame is the words of its slots.
pub use Rattle.oat_frames.proofs.Holding.{word-is, value-is, value-small, zero-value, slot-of, frame-of}
-- What is written below the frames leaves them and the globals; a local, or a word of global data, is assigned; scratch registers may be anything.
pub use Rattle.oat_frames.proofs.Holding.{above, globals-stay, opens, puts-home, puts-global, popped, scratched}
-- Homes of locals, and the instructions that read and write them.
pub use Rattle.oat_frames.proofs.Homes.{home-cases, SameEight, keeps-eight, HomeWritten, writes-home, reads-home, is-home, load-range, store-range}
-- Addresses of slots and of global data can be accessed; code lies low.
pub use Rattle.oat_frames.proofs.Slots.{stack-opens, global-opens, slot-opens, slot-small, lies, frame-opens}
pub use Rattle.oat_frames.proofs.LowCode.{low-code}
-- A row that is found is one of the map.
pub use Rattle.oat_frames.proofs.Sites.{found-contains}
-- The lines of a block, what a line begins with, and its end where it has a result.
pub use Rattle.oat_frames.proofs.Blocks.{lines-stand, words-add-up}
pub use Rattle.oat_frames.proofs.Landing.{by-registers, readied-holds, here-opens, local-word, number-of, number-small, loads-local, loads-number, assigns, comes-within}
