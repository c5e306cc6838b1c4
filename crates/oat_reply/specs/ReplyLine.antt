-- The line of an owner's reply; behind an acceptance stand the lines of its path (docs/FORMATS.md, "Owner scripts").
use Rattle.std.specs.{Prelude.ℕ, Prelude.List, Prelude.◌++◌, Prelude.codes, Prelude.Ok, Prelude.Err, Fmt.decimal}
use Rattle.hex.specs.Hex.{encode_lower}
use Rattle.oat_report.specs.{PathLine.space, VerdictLine.cause_text}
use Rattle.oat_owner.specs.{declared.owner.Issued.Issued, declared.owner.IssueFault.IssueFault, declared.owner.Answer.Answer, declared.owner.Answer.TheVariants.Accepted}
use Rattle.oat_owner.specs.{declared.owner.Answer.TheVariants.Refused, declared.owner.AnswerCause.AnswerCause, declared.call.OwnerReply.OwnerReply}
use Rattle.oat_owner.specs.declared.owner.IssueFault.TheVariants as faults
use Rattle.oat_owner.specs.declared.owner.AnswerCause.TheVariants as causes
use Rattle.oat_owner.specs.declared.call.OwnerReply.TheVariants as replies

abbrev pub issued_text : Issued → List ℕ
issued_text issued = codes "challenge " ++ decimal issued.number ++ space ++ encode_lower issued.frame

-- want of memory is no reply, and ends what is put
abbrev pub issue_fault_text : IssueFault → List ℕ
issue_fault_text faults.UnknownDevice = codes "UnknownDevice"
issue_fault_text faults.NoOperation = codes "NoOperation"
issue_fault_text (faults.UsedNonce number) = codes "UsedNonce " ++ decimal number
issue_fault_text faults.Full = codes "Full"
issue_fault_text faults.Memory = codes "Memory"

abbrev pub answer_cause_text : AnswerCause → List ℕ
answer_cause_text (causes.Frame offset) = codes "frame " ++ decimal offset
answer_cause_text causes.UnknownDevice = codes "device"
answer_cause_text causes.NoChallenge = codes "challenge"
answer_cause_text (causes.Spent number) = codes "spent " ++ decimal number
answer_cause_text (causes.Verdict number cause) = codes "verdict " ++ decimal number ++ space ++ cause_text cause

abbrev pub answer_text : Answer → List ℕ
answer_text (Accepted number path) = codes "accepted " ++ decimal number
answer_text (Refused cause) = codes "refused answer " ++ answer_cause_text cause

-- without its line end
abbrev pub reply_text : OwnerReply → List ℕ
reply_text (replies.Issue (Ok issued)) = issued_text issued
reply_text (replies.Issue (Err fault)) = codes "refused challenge " ++ issue_fault_text fault
reply_text (replies.Answer answer) = answer_text answer
