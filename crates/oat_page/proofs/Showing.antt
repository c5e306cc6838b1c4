-- How puts on both outputs show an outcome.
use Rattle.std.proofs.Common.{ℕ, List, [], Option, refl}
use Rattle.oat_world.specs.Outside.{Adds}
use Rattle.oat_page.specs.{Outcome.Outcome, Shows.Put, Shows.HasFailed, Shows.OrStarved, Shows.ended, Shows.at_once, Shows.behind, Shows.IsLeft, Shows.whole, Shows.cut, Shows.cut_said}
use Rattle.oat_page.specs.{Shows.starved_said, Shows.Shows, Puts.PutsFront, Puts.SaysLast, Puts.said, Puts.failed, Puts.starved}
use Rattle.oat_page.proofs.Putting.{Adds-nothing}

-- The first text was put, and the second was said.
pub Shows-said : (ending : Outcome → Type 0) (o : Outcome) (out err : Put) (result : ℕ) → OrStarved ending o
    → Adds out.held o.out out.holds → SaysLast o.err err o.status result → Shows ending out err result
Shows-said ending o out err result meant put (said is_status added) =
    record { put = o.out; said = o.err; out_added = put; err_added = added; stands = whole o meant is_status refl refl }
Shows-said ending o out err result meant put (failed rose is_five front) =
    record { put = o.out; said = front.0; out_added = put; err_added = front.2; stands = cut_said o meant rose is_five refl front.1 }
Shows-said ending o out err result meant put (starved is_six front) =
    record { put = o.out; said = front.0; out_added = put; err_added = front.2; stands = starved_said o meant is_six refl front.1 }

-- A put of the first text failed, and nothing was said.
pub Shows-cut : (ending : Outcome → Type 0) (o : Outcome) (out : Put) (held : Option (List ℕ)) (before after : ℕ) → OrStarved ending o → HasFailed out
    → PutsFront o.out out.held out.holds → Shows ending out (record { held = held; holds = held; before = before; after = after }) 5
Shows-cut ending o out held before after meant rose front = record {
  put = front.0;
  said = [];
  out_added = front.2;
  err_added = Adds-nothing held;
  stands = cut o meant rose refl front.1 refl;
}

OrStarved-more : (P Q : Outcome → Type 0) (o : Outcome) → ((o : Outcome) → P o → Q o) → OrStarved P o → OrStarved Q o
OrStarved-more P Q o more (ended meant) = ended (more o meant)
OrStarved-more P Q o more (at_once e) = at_once e
OrStarved-more P Q o more (behind all meant front is_six err) = behind all (more all meant) front is_six err

IsLeft-more : (P Q : Outcome → Type 0) (out_failed err_failed : Type 0) (status : ℕ) (out err : List ℕ)
    → ((o : Outcome) → P o → Q o) → IsLeft P out_failed err_failed status out err → IsLeft Q out_failed err_failed status out err
IsLeft-more P Q out_failed err_failed status out err more (whole o meant a b c) = whole o (more o meant) a b c
IsLeft-more P Q out_failed err_failed status out err more (cut o meant rose a b c) = cut o (more o meant) rose a b c
IsLeft-more P Q out_failed err_failed status out err more (cut_said o meant rose a b c) = cut_said o (more o meant) rose a b c
IsLeft-more P Q out_failed err_failed status out err more (starved_said o meant a b c) = starved_said o (more o meant) a b c

pub Shows-more : (P Q : Outcome → Type 0) (out err : Put) (result : ℕ) → ((o : Outcome) → P o → Q o)
    → Shows P out err result → Shows Q out err result
Shows-more P Q out err result more shows = record {
  put = shows.put;
  said = shows.said;
  out_added = shows.out_added;
  err_added = shows.err_added;
  stands = IsLeft-more (OrStarved P) (OrStarved Q) (HasFailed out) (HasFailed err) result shows.put shows.said
      (λ o meant. OrStarved-more P Q o more meant) shows.stands;
}
