pub mod StateBytes
pub mod FallingBytes
pub mod LaidBytes
pub mod Parts
pub mod FormBytes
pub mod GoodBytes
pub mod Standing
