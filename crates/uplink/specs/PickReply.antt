-- The paper's values for a pick's answer, and that they tell the answer.
-- Assumes nothing.
use Rattle.std.specs.Prelude.{◌≡◌, refl, Bool, true, false, cond, List, ℕ, eqb, get_or, Option, Some, None, Result, Ok, Err}
use Rattle.reply.specs.Reply.{Reply, idle, refusal, packet}
use Rattle.reply.specs.Replies.{read, read_refusal, one}
use Rattle.tags.specs.Ticks.{ticks}
use Rattle.reply.specs.declared.Refusal.{Refusal}
use Rattle.uplink.specs.declared.Packet.{Packet}

abbrev pub pick_reply : Result (Option Packet) Refusal → Reply
pick_reply (Ok None) = idle
pick_reply (Ok (Some p)) = packet p.flow p.length p.handle p.tag.0 p.leapt p.clock.0
pick_reply (Err why) = refusal why

-- the packet of six values
abbrev packet_of : List ℕ → Result (Option Packet) Refusal
packet_of vs =
    Ok (Some (record {
      flow = get_or vs 0 0;
      length = get_or vs 1 0;
      handle = get_or vs 2 0;
      tag = ticks (get_or vs 3 0);
      leapt = eqb (get_or vs 4 0) 1;
      clock = ticks (get_or vs 5 0);
    }))

abbrev pick_of : Reply → Result (Option Packet) Refusal
pick_of = read (Ok None) packet_of Err

leapt_read : (leapt : Bool) → eqb (cond leapt 1 0) 1 ≡ leapt
leapt_read true = refl
leapt_read false = refl

pick_read : (a : Result (Option Packet) Refusal) → pick_of (pick_reply a) ≡ a
pick_read (Ok None) = refl
pick_read (Ok (Some p)) = rw (leapt_read p.leapt)
pick_read (Err why) = read_refusal (Ok None) packet_of (λ w. Err w) why

pub pick_reply_one : (a b : Result (Option Packet) Refusal) → pick_reply a ≡ pick_reply b → a ≡ b
pick_reply_one = one pick_reply pick_of pick_read
