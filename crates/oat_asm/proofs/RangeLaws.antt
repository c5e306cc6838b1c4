-- Ranges, item by item.
use Rattle.std.proofs.lemmas.List.Elements.{All-contains, All-from_recursion}
use Rattle.oat_asm.specs.Ranges.{IsItemInRange, RangesGoByItem}
use Rattle.oat_asm.specs.declared.item.Item.TheVariants as item

pub ranges_go_by_item : RangesGoByItem
ranges_go_by_item items each =
    let all = All-from_recursion IsItemInRange items each in record {
      instructions = λ inst has. All-contains IsItemInRange items (item.Inst inst) all has;
      branches = λ form label has. All-contains IsItemInRange items (item.BranchTo form label) all has;
      addresses = λ register label has. All-contains IsItemInRange items (item.AddressOf register label) all has;
      marks = λ mark has. All-contains IsItemInRange items (item.Mark mark) all has;
    }
