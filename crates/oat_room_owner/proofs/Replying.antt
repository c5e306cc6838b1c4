-- How replies that are put one after another add up, and where they stop.
use Rattle.std.proofs.Common.{◌≡◌, ◌∙◌, ◌<◌, ◌+◌, ℕ, List, [], ◌∷◌, ◌++◌, length, take, drop, get_or, Option, Some, Result, Ok, Err, refl, sym, ap, subst, append_assoc}
use Rattle.std.proofs.lemmas.{Grind.flat_map-append, List.append-nil, List.drop_more, List.take_more, List.take-append-drop, List.map-append}
use Rattle.oat_owner.specs.{declared.device.Known.Known, declared.owner.Answer.Answer, declared.owner.Answer.TheVariants.Accepted, declared.call.OwnerCall.OwnerCall}
use Rattle.oat_owner.specs.{declared.call.OwnerReply.OwnerReply, Ledger.Ledger, Ledger.shaped_of, Replies.IsAnswerReply, Replies.behind_answer, Exchanges.Exchange, Exchanges.IsReply, Exchanges.behind}
use Rattle.oat_owner.specs.{Exchanges.CallByCall, Exchanges.owner_behind, Laws.AcceptedIsIssued, Laws.CallsGiveReplies, Laws.CallsGoOn}
use Rattle.oat_page.proofs.{Putting.Adds-then, Putting.PutsAll-behind, Putting.PutsFront-whole, Showing.Shows-more}
use Rattle.oat_shown.specs.{Adds, SinkFault, Edge, Map, Image, edge_line, Done, Outcome, line, starved, IsWorkOutcome, PutsAll, Report.path_text, Put, Shows}
use Rattle.oat_room_owner.specs.{Owner.path_by, Owner.accepted_path, Owner.reply_lines, Owner.lines_from, Owner.replies_text, Owner.replied_calls, Owner.RepliesTo, Owner.to_all, Owner.to_some}
use Rattle.oat_room_owner.specs.{Serving.IsOfIssued, Serving.PutsReplies}
use Rattle.oat_shown.specs.sink as sink
use Rattle.oat_owner.specs.declared.call.OwnerCall.TheVariants as calls
use Rattle.oat_owner.specs.declared.call.OwnerReply.TheVariants as replies

-- the lines of an accepted path, by the image of the challenge's device
pub accepted_lines : (l : Ledger) (answer : Answer) (number : ℕ) (path : List Edge) (image : Image) → answer ≡ Accepted number path
    → shaped_of l number ≡ Some image → path_text image.map path ≡ accepted_path l (replies.Answer answer)
accepted_lines l answer number path image accepted shaped =
    sym (ap (λ (a : Answer). accepted_path l (replies.Answer a)) accepted ∙ ap (λ (o : Option Image). path_by o path) shaped)

-- ---- the replies to calls

-- the calls so far were replied to, and the lines of the replies were put
pub record RepliesSoFar (l m : Ledger) (calls left : List OwnerCall) (old new : Option (List ℕ)) (before now : ℕ) : Type 0 where
  pub exchanges : List Exchange
  pub replied : CallByCall l exchanges m
  pub parted : calls ≡ replied_calls exchanges ++ left
  pub put : Adds old (lines_from l exchanges) new
  pub faults : now ≡ before

lines_more : (l m : Ledger) (exchanges : List Exchange) (e : Exchange) → CallByCall l exchanges m
    → lines_from l (exchanges ++ e ∷ []) ≡ lines_from l exchanges ++ reply_lines (behind m e.call e.reply) e.reply
lines_more l m [] e same =
    append-nil (reply_lines (behind l e.call e.reply) e.reply) ∙ ap (λ (o : Ledger). reply_lines (behind o e.call e.reply) e.reply) same
lines_more l m (d ∷ exchanges) e (first, rest) =
    let next = behind l d.call d.reply in
    ap (λ (text : List ℕ). reply_lines next d.reply ++ text) (lines_more next m exchanges e rest)
    ∙ sym (append_assoc (reply_lines next d.reply) (lines_from next exchanges) (reply_lines (behind m e.call e.reply) e.reply))

module _ (l m after : Ledger) (calls left later : List OwnerCall) (call : OwnerCall) (reply : OwnerReply) (old mid : Option (List ℕ)) (before between : ℕ)
    (so_far : RepliesSoFar l m calls left old mid before between) (next : left ≡ call ∷ later) (is : IsReply m call reply) (led : after ≡ behind m call reply)
    (goes_on : CallsGoOn) where
  abbrev here : Exchange
  here = record { call = call; reply = reply }

  abbrev exchanges_on : List Exchange
  exchanges_on = so_far.exchanges ++ here ∷ []

  parted_on : calls ≡ replied_calls exchanges_on ++ later
  parted_on =
      so_far.parted ∙ (ap (λ (cs : List OwnerCall). replied_calls so_far.exchanges ++ cs) next
      ∙ (sym (append_assoc (replied_calls so_far.exchanges) (call ∷ []) later)
      ∙ ap (λ (cs : List OwnerCall). cs ++ later) (sym (map-append (λ (e : Exchange). e.call) so_far.exchanges (here ∷ [])))))

  lines_on : lines_from l exchanges_on ≡ lines_from l so_far.exchanges ++ reply_lines after reply
  lines_on =
      lines_more l m so_far.exchanges here so_far.replied
      ∙ ap (λ (o : Ledger). lines_from l so_far.exchanges ++ reply_lines o reply) (sym led)

  replied_on : CallByCall l exchanges_on after
  replied_on = subst (CallByCall l exchanges_on) (sym led) (goes_on l m so_far.exchanges here so_far.replied is)

  -- the reply's lines were put
  pub replies_go_on : (new : Option (List ℕ)) (now : ℕ)
      → PutsAll (reply_lines after reply) (record { held = mid; holds = new; before = between; after = now }) (Ok tt)
      → RepliesSoFar l after calls later old new before now
  replies_go_on new now puts = record {
    exchanges = exchanges_on;
    replied = replied_on;
    parted = parted_on;
    put = subst (λ (text : List ℕ). Adds old text new) (sym lines_on)
        (Adds-then (lines_from l so_far.exchanges) (reply_lines after reply) old mid new so_far.put puts.1);
    faults = puts.0 ∙ so_far.faults;
  }

  -- a front of the reply's lines was put
  pub reply_is_cut : (new : Option (List ℕ)) (now : ℕ) (fault : SinkFault)
      → PutsAll (reply_lines after reply) (record { held = mid; holds = new; before = between; after = now }) (Err fault)
      → PutsReplies l calls (record { held = old; holds = new; before = before; after = now }) (Err fault)
  reply_is_cut new now fault puts = record {
    exchanges = exchanges_on;
    last = after;
    replied = replied_on;
    later = later;
    parted = parted_on;
    all = tt;
    lines = PutsAll-behind (lines_from l exchanges_on) (reply_lines after reply) (lines_from l so_far.exchanges) (reply_lines after reply) [] old mid new before between now fault
        lines_on (sym (append-nil (reply_lines after reply))) so_far.put so_far.faults puts;
  }

-- no call is left
pub all_replied : (l m : Ledger) (calls left : List OwnerCall) (old new : Option (List ℕ)) (before now : ℕ) → RepliesSoFar l m calls left old new before now
    → left ≡ [] → PutsReplies l calls (record { held = old; holds = new; before = before; after = now }) (Ok tt)
all_replied l m calls left old new before now so_far none = record {
  exchanges = so_far.exchanges;
  last = m;
  replied = so_far.replied;
  later = left;
  parted = so_far.parted;
  all = none;
  lines = (so_far.faults, so_far.put);
}

-- memory is wanting for the next call
pub reply_is_wanting : (l m : Ledger) (calls left : List OwnerCall) (old new : Option (List ℕ)) (before now : ℕ) → RepliesSoFar l m calls left old new before now
    → PutsReplies l calls (record { held = old; holds = new; before = before; after = now }) (Err sink.Memory)
reply_is_wanting l m calls left old new before now so_far = record {
  exchanges = so_far.exchanges;
  last = m;
  replied = so_far.replied;
  later = left;
  parted = so_far.parted;
  all = tt;
  lines = (so_far.faults, PutsFront-whole (lines_from l so_far.exchanges) old new so_far.put);
}

-- ---- what an owner's replies come to

-- the number of an acceptance is that of an issued challenge
pub of_issued : AcceptedIsIssued → (l : Ledger) (call : OwnerCall) (reply : OwnerReply) → IsReply l call reply → IsOfIssued (behind l call reply) reply
of_issued issued l (calls.Issue device op nonce) (replies.Issue r) is number path same = absurd cc
of_issued issued l (calls.Issue device op nonce) (replies.Answer a) is number path same = absurd is
of_issued issued l (calls.Answer frame) (replies.Issue r) is number path same = absurd is
of_issued issued l (calls.Answer frame) (replies.Answer a) is number path same =
    let one : a ≡ Accepted number path = cc in
    subst (λ (b : Answer). number < length (behind_answer l b).challenges) (sym one)
    (issued l frame number path (subst (λ (b : Answer). IsAnswerReply l frame b) one is))

-- what was put of the replies is shown
pub shows_replies : CallsGiveReplies → (known : List Known) (calls : List OwnerCall) (out err : Put) (status : ℕ) (result : Result (Unit {0}) SinkFault)
    → PutsReplies (owner_behind known []) calls out result
    → ((text : List ℕ) (put : Put) → PutsAll text put result → Shows (IsWorkOutcome Done text []) put err status)
    → ((fault : SinkFault) (o : Outcome) (put : Put) → result ≡ Err fault → PutsAll o.out put result → Shows (λ p. p ≡ o) put err status)
    → Shows (RepliesTo known calls) out err status
shows_replies give known calls out err status (Ok done) puts whole stopped =
    let all : replied_calls puts.exchanges ≡ calls = sym (puts.parted ∙ (ap (λ (cs : List OwnerCall). replied_calls puts.exchanges ++ cs) puts.all ∙ append-nil (replied_calls puts.exchanges))) in
    Shows-more (IsWorkOutcome Done (replies_text known puts.exchanges) []) (RepliesTo known calls) out err status
    (λ o is. to_all puts.exchanges (give known puts.exchanges puts.last puts.replied).0 all is)
    (whole (replies_text known puts.exchanges) out puts.lines)
shows_replies give known calls out err status (Err fault) puts whole stopped =
    let o = record starved { out = replies_text known puts.exchanges } in
    Shows-more (λ (p : Outcome). p ≡ o) (RepliesTo known calls) out err status
    (λ p is. to_some puts.exchanges (give known puts.exchanges puts.last puts.replied).0 puts.later puts.parted is)
    (stopped fault o out refl puts.lines)
