use Rattle.machine_meaning.specs.Instructions.{bytes_of}
use Rattle.std.proofs.Common.{map, Some}
use Rattle.compiler.proofs.Emitted.{encode_at, read_at}
use Rattle.compiler.proofs.section.encoded.Goals as goal

pub loop-instr-preserved : goal.loop-instr-preserved
loop-instr-preserved c =
    let i = c.loop-instr.instr-index in
    let xs = c.args.code.now in
    let bytes = c.loop-instr.bytes.items in
    record {
      bytes = encode_at xs i _ bytes c.push.new.self.items c.encode.result (map bytes_of xs) c.encode.ensures.bytes c.loop-instr-test.true c.loop-instr.invariant.bytes c.in_ok-push.ensures.items;
      reads_back = read_at xs i _ bytes c.push.new.self.items c.encode.result (map Some xs) c.encode.ensures.reads_back c.loop-instr-test.true c.loop-instr.invariant.reads_back c.in_ok-push.ensures.items;
    }
