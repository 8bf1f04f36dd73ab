-- The numbers of the kinds are those from 1 to the count of the kinds.
-- Assumes nothing.
use Rattle.std.specs.Prelude.{◌≤◌}
use Rattle.std.proofs.Common.{arith}
use Rattle.attributes.specs.declared.AttributeKind.{AttributeKind}
use Rattle.attributes.specs.declared.AttributeKind.TheVariants.{Boolean, Integer, Float, String, IntegerList, StringList}
use Rattle.attributes.specs.Kinds.{kind_count, kind_number}

pub kind_range : (kind : AttributeKind) → (1 ≤ kind_number kind) × (kind_number kind ≤ kind_count)
kind_range Boolean = (omega arith, omega arith)
kind_range Integer = (omega arith, omega arith)
kind_range Float = (omega arith, omega arith)
kind_range String = (omega arith, omega arith)
kind_range IntegerList = (omega arith, omega arith)
kind_range StringList = (omega arith, omega arith)
