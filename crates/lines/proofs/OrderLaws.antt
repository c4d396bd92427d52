-- How many fields a command has.
-- Assumes nothing.
use Rattle.std.proofs.Common.{◌≤◌, arith}
use Rattle.lines.specs.Connections.{verb_fields}
use Rattle.lines.specs.Orders.{field_count}
use Rattle.lines.specs.declared.connections.Verb.{Verb}
use Rattle.lines.specs.declared.connections.Verb.TheVariants as TheVerb
use Rattle.lines.specs.declared.orders.Command.{Command}
use Rattle.lines.specs.declared.orders.Command.TheVariants as TheCommand

few_of : (v : Verb) → verb_fields v ≤ 4
few_of TheVerb.Connection = omega arith
few_of TheVerb.Call = omega arith
few_of TheVerb.Indicate = omega arith
few_of TheVerb.Confirm = omega arith
few_of TheVerb.Bring = omega arith
few_of TheVerb.Respond = omega arith
few_of TheVerb.Say = omega arith
few_of TheVerb.Release = omega arith
few_of TheVerb.Lost = omega arith
few_of TheVerb.End = omega arith
few_of TheVerb.Late = omega arith

pub few-fields : (c : Command) → field_count c ≤ 4
few-fields TheCommand.Begin = omega arith
few-fields TheCommand.Message = omega arith
few-fields TheCommand.Search = omega arith
few-fields TheCommand.Keys = omega arith
few-fields TheCommand.Build = omega arith
few-fields TheCommand.Check = omega arith
few-fields (TheCommand.Connection v) = few_of v
few-fields TheCommand.Store = omega arith
few-fields TheCommand.Edition = omega arith
few-fields TheCommand.Convert = omega arith
few-fields TheCommand.Show = omega arith
few-fields TheCommand.Empty = omega arith
few-fields TheCommand.Help = omega arith
