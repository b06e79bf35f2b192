pub mod RingLength
